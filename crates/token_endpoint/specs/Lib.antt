-- token_endpoint: the reply to what was granted, as the code holds it.
pub mod Replies
