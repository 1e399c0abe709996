pub mod PrintingLemmas
pub mod SaidLemmas
pub mod TextLemmas
pub mod WindowLemmas
