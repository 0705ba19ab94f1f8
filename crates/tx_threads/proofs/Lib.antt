pub mod AwaitAnswers
