-- Laws of the reasons to refuse a query, and of what reading it answers.
pub mod Reasons
