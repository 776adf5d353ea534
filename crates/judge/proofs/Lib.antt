pub mod PrefixPages
pub mod LayerLoops
pub mod RightTree
pub mod RightChains
pub mod PrefixLoops
pub mod Verdicts
pub mod CutRows
pub mod Accepting
