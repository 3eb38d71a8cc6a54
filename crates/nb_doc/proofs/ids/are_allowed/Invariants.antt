use Rattle.std.proofs.Common.{◌≡◌, drop}
use Rattle.std.specs.List.{list_all}
use Rattle.nb_doc.specs.Ids.{is_allowed, standing}
use Rattle.nb_doc.proofs.ids.are_allowed.Given as goal

-- whether all are allowed is whether those that are left are
abbrev pub invariant-loop-draft : goal.invariant-loop-draft
invariant-loop-draft l = list_all is_allowed (standing (drop l.draft-index l.drafts)) ≡ list_all is_allowed (standing l.drafts)
