pub mod Laws
mod PassingLaws
