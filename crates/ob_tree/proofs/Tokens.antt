-- A token of a kind, at a place.
use Rattle.ob_scan.specs.declared.token.Kind.{Kind}
use Rattle.ob_scan.specs.declared.token.Span.{Span}
use Rattle.ob_scan.specs.declared.token.Token.{Token}

abbrev pub made : Kind → Span → Token
made kind span = record { kind = kind; span = span }
