-- The lemmas: networks by their numbers, the pass over them and the ranges that it writes; the runs of a node, the changes
-- and the words of a list, what entries lead to, what blocks have, and their parts; networks as keys and as rows.
pub mod Numbers
pub mod Steps
pub mod Longest
pub mod Written
pub mod Nodes
pub mod Changes
pub mod Lists
pub mod Searching
pub mod Entries
pub mod BlockAnswers
pub mod ListAnswers
pub mod Blocks
pub mod Tables
pub mod Fits
pub mod Networks
pub mod Sets
