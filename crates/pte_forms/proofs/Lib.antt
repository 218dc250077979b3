pub mod JoinedFields
