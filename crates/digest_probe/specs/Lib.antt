-- digest_probe: what the digest answers to the tests and the benchmark of the host.
pub mod Probe
