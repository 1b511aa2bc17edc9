pub mod DecideSamples
