pub mod StateText
