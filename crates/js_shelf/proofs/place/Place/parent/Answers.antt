use Rattle.std.proofs.Common.{ap, ◌∙◌, string_bytes}
use Rattle.js_shelf.specs.Paths.{is_path, parent_of}
use Rattle.js_shelf.proofs.PlaceLemmas.{is_path-parent_of}
use Rattle.js_shelf.proofs.place.Place.parent.Goals as goal

pub invariant_of-result : goal.invariant_of-result
invariant_of-result c =
    ap is_path (c.in_ok-path.ensures.ok ∙ c.parent_of.ensures ∙ ap parent_of c.as_str.ensures.value) ∙ is_path-parent_of (string_bytes c.self.inside.path) c.self.invariant
