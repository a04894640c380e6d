pub mod Layer
pub mod PutFacts
