-- To be believed.
-- The JSON of answers: compact, with sorted keys.
use Rattle.std.specs.Prelude.{ℕ, true, List, [], ◌∷◌, ◌++◌, map, Option, Some, None, codes}
use Rattle.serde_json.specs.Data.{Data, null, boolean, string, array, number, unsigned, no_items}
use Rattle.serde_json.specs.Written.{compact_text}
use Rattle.json_form.specs.Forms.{empty_object}
use Rattle.nb_doc.specs.Writing.{array_of, fields}
use Rattle.js_tables.specs.declared.tables.State.{State}
use Rattle.js_tables.specs.declared.tables.State.TheVariants.{Busy, Idle}
use Rattle.js_tables.specs.declared.tables.Kernel.{Kernel}
use Rattle.js_tables.specs.declared.tables.Session.{Session}
use Rattle.js_tables.specs.declared.forms.Kind.{Kind}
use Rattle.js_tables.specs.declared.forms.Kind.TheVariants.{Directory, File, Notebook}
use Rattle.js_tables.specs.declared.forms.About.{About}

-- the bytes of a body
unfoldable pub body_text : Data → List ℕ
body_text d = compact_text d

unfoldable pub version_form : Data
version_form = fields ((codes "version", string (codes "1.0.0")) ∷ [])

unfoldable pub spec_form : Data
spec_form =
    fields ((codes "argv", array no_items) ∷ (codes "display_name", string (codes "Oberon-07")) ∷ (codes "env", empty_object) ∷
    (codes "interrupt_mode", string (codes "message")) ∷ (codes "language", string (codes "oberon")) ∷ (codes "metadata", empty_object) ∷ [])

unfoldable pub oberon_form : Data
oberon_form =
    fields ((codes "name", string (codes "oberon")) ∷ (codes "resources", empty_object) ∷ (codes "spec", spec_form) ∷ [])

unfoldable pub all_specs_form : Data
all_specs_form = fields ((codes "oberon", oberon_form) ∷ [])

unfoldable pub kernelspecs_form : Data
kernelspecs_form =
    fields ((codes "default", string (codes "oberon")) ∷ (codes "kernelspecs", all_specs_form) ∷ [])

unfoldable pub state_name : State → List ℕ
state_name Busy = codes "busy"
state_name Idle = codes "idle"

-- a kernel
unfoldable pub kernel_form : Kernel → Data
kernel_form k =
    fields ((codes "connections", number (unsigned k.connections)) ∷ (codes "execution_state", string (state_name k.state)) ∷
    (codes "id", string k.id) ∷ (codes "last_activity", string k.last_activity) ∷ (codes "name", string (codes "oberon")) ∷ [])

unfoldable pub kernels_form : List Kernel → Data
kernels_form ks = array_of (map kernel_form ks)

-- a session, with its kernel
unfoldable pub session_form : Kernel → Session → Data
session_form k s =
    fields ((codes "id", string s.id) ∷ (codes "kernel", kernel_form k) ∷ (codes "name", string s.name) ∷
    (codes "path", string s.path) ∷ (codes "type", string s.kind) ∷ [])

unfoldable pub kind_name : Kind → List ℕ
kind_name Directory = codes "directory"
kind_name File = codes "file"
kind_name Notebook = codes "notebook"

-- what stands at a path: the content, and its format and media type, are null where they are not shown
unfoldable pub model_form : About → Data → Data → Data → Data
model_form about content format mimetype =
    fields ((codes "content", content) ∷ (codes "created", string about.date) ∷ (codes "format", format) ∷
    (codes "last_modified", string about.date) ∷ (codes "mimetype", mimetype) ∷ (codes "name", string about.name) ∷
    (codes "path", string about.path) ∷ (codes "type", string (kind_name about.kind)) ∷ (codes "writable", boolean true) ∷ [])

abbrev pub onto : Kernel → Option Session → List Data → List Data
onto k None ds = ds
onto k (Some s) ds = session_form k s ∷ ds

abbrev pub with_form : List Data → Kernel → Option Session → List Data
with_form ds k None = ds
with_form ds k (Some s) = ds ++ session_form k s ∷ []

-- the sessions, in the order of their kernels
abbrev pub session_forms : List Kernel → List Data
session_forms [] = []
session_forms (k ∷ ks) = onto k k.session (session_forms ks)

unfoldable pub sessions_form : List Kernel → Data
sessions_form ks = array_of (session_forms ks)
