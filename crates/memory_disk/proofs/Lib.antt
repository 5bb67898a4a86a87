pub mod Steps
pub mod Records
pub mod Lists
pub mod BeginningLemmas
pub mod ImageLemmas
pub mod CopyLemmas
pub mod MaskLemmas
pub mod CountLemmas
