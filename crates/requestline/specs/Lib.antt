pub mod RequestLine
