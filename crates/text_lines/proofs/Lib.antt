pub mod FieldLemmas
pub mod KindLemmas
pub mod OptionLemmas
pub mod TextLemmas
