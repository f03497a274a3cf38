-- A K or I sheet is read exactly from the text of a legal one, which is written again as it was (`read_exactly` of ReadExactly).
-- Assumes nothing.
pub use Rattle.sheet.proofs.LegalKeys.{key_read_again, key_read_legal, key_read_exactly}
pub use Rattle.sheet.proofs.LegalJoins.{join_read_again, join_read_legal, join_read_exactly}
