pub mod Carrying
pub mod Damage
pub mod HeardLaws
