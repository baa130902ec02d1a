pub mod Numbers
pub mod SetLemmas
pub mod BodyLaws
pub mod Laws
pub mod SizeLaws
pub mod OfferLaws
