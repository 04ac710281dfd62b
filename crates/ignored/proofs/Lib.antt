pub mod RestOfLine
