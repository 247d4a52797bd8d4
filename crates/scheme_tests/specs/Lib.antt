pub mod DualBoundsSamples
pub mod TreeEmbedSamples
