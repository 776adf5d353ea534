pub mod Label
