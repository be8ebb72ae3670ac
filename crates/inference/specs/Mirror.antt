pub mod Inference
