-- That the counting engine meets the laws of engines, as the trait asks. Nobody has to believe it.
pub mod CountingLaws
