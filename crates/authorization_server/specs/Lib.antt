-- authorization_server: the numbers in which a C host sees an answer.
pub mod Numbers
