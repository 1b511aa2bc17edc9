pub mod LiaBranchRows
pub mod LiaTableauRows
