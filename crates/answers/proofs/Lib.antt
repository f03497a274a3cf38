pub mod KeyLists
pub mod KeyChosen
pub mod JoinLists
pub mod JoinChosen
