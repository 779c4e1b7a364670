pub mod LayOut
