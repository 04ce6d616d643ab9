pub mod punctuated
