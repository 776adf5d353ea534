-- What contracts inside the library cite, and no public contract does.
use Rattle.answer.specs.declared.Refusal.{Refusal}
use Rattle.std.specs.Prelude.{ℕ, ◌^◌, ◌<◌, Result, Ok, Err}

-- The values of a call that is done are small enough.
abbrev pub Fits : {T : Type 0} → (T → Type 0) → Result T Refusal → Type 0
Fits small (Ok values) = small values
Fits small (Err r) = Unit {0}

-- The first of two values is below 2^24.
abbrev pub FirstFits : Result (ℕ × ℕ) Refusal → Type 0
FirstFits = Fits (λ values. values.0 < 2 ^ 24)

-- A second value goes beside the first; a refusal stays alone.
abbrev pub with_second : Result ℕ Refusal → ℕ → Result (ℕ × ℕ) Refusal
with_second (Ok n) second = Ok (n, second)
with_second (Err r) second = Err r
