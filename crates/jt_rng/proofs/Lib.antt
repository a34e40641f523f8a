mod Examples
pub mod ForkLemmas
pub mod GeneratorLemmas
pub mod RangeLemmas
pub mod StreamLemmas
