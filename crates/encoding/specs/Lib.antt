-- encoding: bytes as text. Hex: handles in lower-case hex, and hex digits for other coders. Base64: RFC 4648, strict.
pub mod Hex
pub mod Base64
