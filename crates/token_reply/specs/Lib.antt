-- token_reply: the parts of a reply as the code writes them.
pub mod Parts
