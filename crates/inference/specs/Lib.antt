pub mod Inference
pub mod Inferring
