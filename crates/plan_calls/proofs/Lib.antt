-- Laws of the state's arrays that are written.
pub mod WritableLaws
