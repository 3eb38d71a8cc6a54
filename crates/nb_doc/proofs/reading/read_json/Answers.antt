use Rattle.nb_doc.proofs.Passes.{reads_utf8}
use Rattle.nb_doc.proofs.reading.read_json.Goals as goal

pub returns : goal.returns
returns c = reads_utf8 c.args.text.now c.read_bytes.result c.read_bytes.ensures.text c.read_bytes.ensures.other
