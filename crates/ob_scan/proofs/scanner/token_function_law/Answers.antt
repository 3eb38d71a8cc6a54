use Rattle.ob_scan.proofs.TokenReading.{tokens_of-sound, tokens_of-complete}
use Rattle.ob_scan.proofs.scanner.token_function_law.Goals as goal

pub returns : goal.returns
returns c = λ text tokens. (tokens_of-sound text tokens, tokens_of-complete text tokens)
