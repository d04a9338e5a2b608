-- What has to be believed: where the parts of a file lie (`Layout`), what they say (`Tables`), what is wrong with other bytes
-- (`Faults`), the messages, and what is written (`Contents`, and of `Written` what a part is with the zeros behind it).
-- `FaultLaws`, `FileLaws` and `Spelling` are checked and not believed.
pub mod Layout
pub mod Tables
pub mod Faults
pub mod Messages
pub mod Contents
pub mod Written
pub mod Spelling
pub mod FaultLaws
pub mod FileLaws
