pub mod Making
pub mod ChLaws
pub mod ScheduleLaws
pub mod RoundLaws
