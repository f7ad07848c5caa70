pub mod JoinedWords
