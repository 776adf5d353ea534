pub mod RuleLaws
pub mod Bits
