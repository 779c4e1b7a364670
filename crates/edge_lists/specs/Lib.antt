pub mod EdgeList
