use Rattle.std.proofs.Common.{drop}
use Rattle.nb_doc.specs.Ids.{standing}
use Rattle.nb_doc.proofs.Distinct.{IsReading}
use Rattle.nb_doc.proofs.ids.distinct_ids.Given as goal

-- the set has the ids before those that are left
abbrev pub invariant-loop-draft : goal.invariant-loop-draft
invariant-loop-draft l = IsReading l.names (standing l.drafts) (standing (drop l.draft-index l.drafts))
