-- Demand 3 is not of document 01's terms alone: under all terms that pass one computed test (which
-- 01's pass) nothing that is told, decoded or copied depends on an octet that they call a value.
use Rattle.blindness.specs.Blindness as blindness

pub record ForAllTerms : Type 0 where
  -- files that differ in values octets only are one, values octets of all sections or of those that
  -- lent tables list
  pub equal_files : blindness.Blindness
  pub with_lent_tables : blindness.LentBlindness
  -- a public copy is as good as its file
  pub copies : blindness.PublicCopies
  -- document 01's terms are its four stretches; they pass the test, and with one octet more of a
  -- section they would not
  pub four_stretches : blindness.LicensedAreFour
  pub terms_pass : blindness.TermsPass
  pub one_more_fails : blindness.OneMoreFails
