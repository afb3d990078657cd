-- decoding_probe: what the decoder answers to the decoding benchmark.
pub mod Probe
