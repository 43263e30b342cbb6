pub mod CutLemmas
mod Examples
pub mod ReadLemmas
pub mod SaidLemmas
