-- The laws that the functions' proofs cite, and the theorems whose statements stand in specs/:
-- Promised (ReadsBack, LoadsOnlyForms and those of the old form), ConversionLaws (EveryOldConverts), Changes (ChangeRefused,
-- OldChangeRefused), StoredHistories (StoredHistories, NeverRevives).
pub mod Lists
pub mod FormLaws
pub mod Checks
pub mod BlockLaws
pub mod RecordLaws
pub mod StoreLaws
pub mod ReadLaws
pub mod Joins
pub mod FitLaws
pub mod LoadLaws
pub mod BlockReading
pub mod RoundTrip
pub mod Fitting
pub mod Promised
pub mod EitherForm
pub mod ConversionLaws
pub mod Bytes
pub mod CheckChanges
pub mod Changes
pub mod StoredHistories
