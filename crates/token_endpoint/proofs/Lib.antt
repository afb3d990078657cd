-- Laws of the reply to what was granted.
pub mod Replies
