pub mod FtypLemmas
pub mod HdlrLemmas
pub mod PitmLemmas
