-- sha256: laws of words and of the definitions, in the order of a digest; that it is bytes; the constants; examples by computation.
pub mod Words
pub mod Blocks
pub mod Padding
pub mod Results
pub mod Constants
pub mod Examples
