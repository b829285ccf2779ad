pub mod DepthWords
