-- A message that was read has its fields, and a text that has a message's fields is read.
use Rattle.std.proofs.Common.{◌≡◌, ◌⊎◌, inl, inr, ◌≤◌, ℕ, List, [], Bool, true, false, cond, nat_lt, pos, length, codes, Option, Some, None, Result, Ok, Err, option_and_then, refl, sym, subst, ap, ◌∙◌, arith, IfOk}
use Rattle.std.proofs.lemmas.Bool.Decides.{nat_tests}
use Rattle.std.specs.Result.{result_ok}
use Rattle.serde_json.specs.Data.{Data}
use Rattle.serde_json.specs.Find.{get, as_str}
use Rattle.serde_json.specs.Read.{read}
use Rattle.json_form.specs.declared.fault.Fault.{Fault}
use Rattle.json_form.specs.declared.fault.Bad.{Bad}
use Rattle.json_form.specs.Forms.{◌>>=◌, Gives, text_has_float, if_whole, whole_json, of_kind, optional, HasOr, text_at, text_or, boolean_or, whole_or, object_at, object_or_empty, no_items_at}
use Rattle.json_form.proofs.Binds.{bind_ok, ok_same}
use Rattle.json_form.proofs.Fields.{text_at-found, text_at-only, text_or-found, text_or-only, boolean_or-found, boolean_or-only, whole_or-found, whole_or-only, object_at-found, object_at-only, object_or_empty-found, object_or_empty-only, no_items_at-found, no_items_at-only}
use Rattle.jp_msg.specs.declared.message.Message.{Message}
use Rattle.jp_msg.specs.declared.message.Header.{Header}
use Rattle.jp_msg.specs.declared.message.Execute.{Execute}
use Rattle.jp_msg.specs.declared.message.Channel.{Channel}
use Rattle.jp_msg.specs.declared.message.Channel.TheVariants.{Shell}
use Rattle.jp_msg.specs.declared.message.Content.{Content}
use Rattle.jp_msg.specs.declared.message.Content.TheVariants as content
use Rattle.jp_msg.specs.declared.message.Request.{Request}
use Rattle.jp_msg.specs.declared.message.Request.TheVariants as request
use Rattle.jp_msg.specs.declared.message.RequestKind.{RequestKind}
use Rattle.jp_msg.specs.declared.message.RequestKind.TheVariants as kind
use Rattle.jp_msg.specs.Reading.{header_of, channel_named, channel_at, kind_of, execute_of, request_of, content_of, message_of, value_at, message_at}
use Rattle.jp_msg.specs.TextForms.{IsHeader, IsExecute, asked, HasFields, IsContent, channel_kind, IsMessage, IsMessageText}

pub header_found : (d : Data) (h : Header) → header_of d ≡ Ok h → (h.json ≡ d) × IsHeader h
unfolding header_of
header_found d h e =
    let a = bind_ok (text_at (codes "msg_id") d) _ h e in
    let b = bind_ok (text_at (codes "session") d) _ h a.2 in
    let t = bind_ok (text_at (codes "msg_type") d) _ h b.2 in
    let u = bind_ok (text_or [] (codes "username") d) _ h t.2 in
    let v = bind_ok (text_or [] (codes "date") d) _ h u.2 in
    let w = bind_ok (text_or [] (codes "version") d) _ h v.2 in
    let made : Header = record { msg_id = a.0; session = b.0; msg_type = t.0; username = u.0; date = v.0; version = w.0; json = d } in
    let is : made ≡ h = ok_same made h w.2 in
    let P : Header → Type 0 = λ x. (x.json ≡ d) × IsHeader x in
    subst P is (
      refl,
      record {
        msg_id = text_at-found (codes "msg_id") d a.0 a.1;
        session = text_at-found (codes "session") d b.0 b.1;
        msg_type = text_at-found (codes "msg_type") d t.0 t.1;
        username = text_or-found [] (codes "username") d u.0 u.1;
        date = text_or-found [] (codes "date") d v.0 v.1;
        version = text_or-found [] (codes "version") d w.0 w.1;
      },
    )

pub header_only : (h : Header) → IsHeader h → header_of h.json ≡ Ok h
unfolding header_of
header_only h f =
    let a = text_at-only (codes "msg_id") h.json h.msg_id f.msg_id in
    let b = text_at-only (codes "session") h.json h.session f.session in
    let t = text_at-only (codes "msg_type") h.json h.msg_type f.msg_type in
    let u = text_or-only [] (codes "username") h.json h.username f.username in
    let v = text_or-only [] (codes "date") h.json h.date f.date in
    let w = text_or-only [] (codes "version") h.json h.version f.version in
    rw (a, b, t, u, v, w) refl

pub execute_found : (d : Data) (x : Execute) → execute_of d ≡ Ok x → IsExecute d x
unfolding execute_of
execute_found d x e =
    let a = bind_ok (text_at (codes "code") d) _ x e in
    let b = bind_ok (boolean_or false (codes "silent") d) _ x a.2 in
    let t = bind_ok (boolean_or true (codes "store_history") d) _ x b.2 in
    let u = bind_ok (object_or_empty (codes "user_expressions") d) _ x t.2 in
    let v = bind_ok (boolean_or true (codes "allow_stdin") d) _ x u.2 in
    let w = bind_ok (boolean_or true (codes "stop_on_error") d) _ x v.2 in
    let made : Execute = record { code = a.0; silent = b.0; store_history = t.0; user_expressions = u.0; allow_stdin = v.0; stop_on_error = w.0 } in
    subst (IsExecute d) (ok_same made x w.2) (record {
      code = text_at-found (codes "code") d a.0 a.1;
      silent = boolean_or-found false (codes "silent") d b.0 b.1;
      store_history = boolean_or-found true (codes "store_history") d t.0 t.1;
      user_expressions = object_or_empty-found (codes "user_expressions") d u.0 u.1;
      allow_stdin = boolean_or-found true (codes "allow_stdin") d v.0 v.1;
      stop_on_error = boolean_or-found true (codes "stop_on_error") d w.0 w.1;
    })

pub execute_only : (d : Data) (x : Execute) → IsExecute d x → execute_of d ≡ Ok x
unfolding execute_of
execute_only d x f =
    let a = text_at-only (codes "code") d x.code f.code in
    let b = boolean_or-only false (codes "silent") d x.silent f.silent in
    let t = boolean_or-only true (codes "store_history") d x.store_history f.store_history in
    let u = object_or_empty-only (codes "user_expressions") d x.user_expressions f.user_expressions in
    let v = boolean_or-only true (codes "allow_stdin") d x.allow_stdin f.allow_stdin in
    let w = boolean_or-only true (codes "stop_on_error") d x.stop_on_error f.stop_on_error in
    rw (a, b, t, u, v, w) refl

-- ---- the content

abbrev Fits : RequestKind → Data → Request → Type 0
Fits k d r = (k ≡ asked r) × HasFields d r

request_found : (k : RequestKind) (d : Data) (r : Request) → request_of k d ≡ Ok r → Fits k d r
unfolding request_of
request_found kind.Execute d r e = let a = bind_ok (execute_of d) _ r e in subst (Fits kind.Execute d) (ok_same _ r a.2) (refl, execute_found d a.0 a.1)
request_found kind.KernelInfo d r e = subst (Fits kind.KernelInfo d) (ok_same _ r e) (refl, tt)
request_found kind.IsComplete d r e = let a = bind_ok (text_at (codes "code") d) _ r e in subst (Fits kind.IsComplete d) (ok_same _ r a.2) (refl, text_at-found (codes "code") d a.0 a.1)
request_found kind.Complete d r e = let a = bind_ok (whole_or (pos 0) (codes "cursor_pos") d) _ r e in subst (Fits kind.Complete d) (ok_same _ r a.2) (refl, whole_or-found (pos 0) (codes "cursor_pos") d a.0 a.1)
request_found kind.Inspect d r e = subst (Fits kind.Inspect d) (ok_same _ r e) (refl, tt)
request_found kind.History d r e = subst (Fits kind.History d) (ok_same _ r e) (refl, tt)
request_found kind.CommInfo d r e = subst (Fits kind.CommInfo d) (ok_same _ r e) (refl, tt)
request_found kind.Interrupt d r e = subst (Fits kind.Interrupt d) (ok_same _ r e) (refl, tt)
request_found kind.Shutdown d r e = let a = bind_ok (boolean_or false (codes "restart") d) _ r e in subst (Fits kind.Shutdown d) (ok_same _ r a.2) (refl, boolean_or-found false (codes "restart") d a.0 a.1)
request_found kind.InputReply d r e = let a = bind_ok (text_at (codes "value") d) _ r e in subst (Fits kind.InputReply d) (ok_same _ r a.2) (refl, text_at-found (codes "value") d a.0 a.1)
request_found kind.Other d r e = subst (Fits kind.Other d) (ok_same _ r e) (refl, tt)

request_only : (r : Request) (d : Data) → HasFields d r → request_of (asked r) d ≡ Ok r
unfolding request_of
request_only (request.Execute x) d f = rw (execute_only d x f) refl
request_only request.KernelInfo d f = refl
request_only (request.IsComplete code) d f = rw (text_at-only (codes "code") d code f) refl
request_only (request.Complete cursor) d f = rw (whole_or-only (pos 0) (codes "cursor_pos") d cursor f) refl
request_only request.Inspect d f = refl
request_only request.History d f = refl
request_only request.CommInfo d f = refl
request_only request.Interrupt d f = refl
request_only (request.Shutdown restart) d f = rw (boolean_or-only false (codes "restart") d restart f) refl
request_only (request.InputReply line) d f = rw (text_at-only (codes "value") d line f) refl
request_only request.Other d f = refl

content_found : (channel : Channel) (msg_type : List ℕ) (d : Data) (c : Content) → content_of channel msg_type d ≡ Ok c → IsContent channel msg_type d c
unfolding content_of
content_found channel msg_type d c e =
    let a = bind_ok (request_of (kind_of channel msg_type) d) _ c e in
    let f = request_found (kind_of channel msg_type) d a.0 a.1 in
    record { request = a.0; is_request = sym (ok_same (content.Request a.0) c a.2); is_asked = f.0; fields = f.1 }

content_only : (channel : Channel) (msg_type : List ℕ) (d : Data) (c : Content) → IsContent channel msg_type d c → content_of channel msg_type d ≡ Ok c
unfolding content_of
content_only channel msg_type d c f = rw (f.is_asked, request_only f.request d f.fields, f.is_request) refl

-- ---- the channel

named_found : (s : List ℕ) (c : Channel) → channel_named s ≡ Ok c → result_ok (channel_named s) ≡ Some c
named_found s c e = ap result_ok e

named_only : (r : Result Channel Fault) (c : Channel) → result_ok r ≡ Some c → r ≡ Ok c
named_only (Ok x) c e = cc
named_only (Err g) c e = cc

shell : channel_named (codes "shell") ≡ Ok Shell
unfolding channel_named
shell = refl

field_found : (o : Option Data) (c : Channel) → (optional (codes "shell") as_str o >>= channel_named) ≡ Ok c → (option_and_then channel_kind o ≡ Some c) ⊎ ((o ≡ None) × (c ≡ Shell))
field_found None c e = let same : Ok Shell ≡ Ok c = sym shell ∙ e in inr (refl, sym (ok_same Shell c same))
field_found (Some d) c e = inl (text_found (as_str d) c e)
  where
    text_found : (t : Option (List ℕ)) (c : Channel) → (of_kind t >>= channel_named) ≡ Ok c → option_and_then (λ s. result_ok (channel_named s)) t ≡ Some c
    text_found None c e = cc
    text_found (Some s) c e = ap result_ok e

text_only : (t : Option (List ℕ)) (c : Channel) → option_and_then (λ s. result_ok (channel_named s)) t ≡ Some c → (of_kind t >>= channel_named) ≡ Ok c
text_only None c h = cc
text_only (Some s) c h = named_only (channel_named s) c h

field_only : (o : Option Data) (c : Channel) → (option_and_then channel_kind o ≡ Some c) ⊎ ((o ≡ None) × (c ≡ Shell)) → (optional (codes "shell") as_str o >>= channel_named) ≡ Ok c
field_only (Some d) c (inl h) = text_only (as_str d) c h
field_only None c (inl h) = cc
field_only (Some d) c (inr h) = let apart : Some d ≡ None = h.0 in cc
field_only None c (inr h) = shell ∙ ap Ok (sym h.1)

channel_found : (d : Data) (c : Channel) → channel_at d ≡ Ok c → HasOr Shell channel_kind (codes "channel") d c
unfolding channel_at text_or
channel_found d c e = field_found (get (codes "channel") d) c e

channel_only : (d : Data) (c : Channel) → HasOr Shell channel_kind (codes "channel") d c → channel_at d ≡ Ok c
unfolding channel_at text_or
channel_only d c h = field_only (get (codes "channel") d) c h

-- ---- the message

pub message_found : (d : Data) (m : Message) → message_of d ≡ Ok m → IsMessage d m
unfolding message_of
message_found d m e =
    let a = bind_ok (object_at (codes "header") d) _ m e in
    let h = bind_ok (header_of a.0) _ m a.2 in
    let p = bind_ok (object_or_empty (codes "parent_header") d) _ m h.2 in
    let q = bind_ok (object_or_empty (codes "metadata") d) _ m p.2 in
    let o = bind_ok (object_at (codes "content") d) _ m q.2 in
    let k = bind_ok (channel_at d) _ m o.2 in
    let n = bind_ok (no_items_at (codes "buffers") d) _ m k.2 in
    let c = bind_ok (content_of k.0 h.0.msg_type o.0) _ m n.2 in
    let made : Message = record { header = h.0; parent_header = p.0; metadata = q.0; content = c.0; channel = k.0; buffers = n.0 } in
    let f = header_found a.0 h.0 h.1 in
    let kept = object_at-found (codes "header") d a.0 a.1 in
    subst (IsMessage d) (ok_same made m c.2) (record {
      header_object = kept ∙ ap Some (sym f.0);
      header = f.1;
      parent_header = object_or_empty-found (codes "parent_header") d p.0 p.1;
      metadata = object_or_empty-found (codes "metadata") d q.0 q.1;
      content_object = o.0;
      has_content = object_at-found (codes "content") d o.0 o.1;
      content = content_found k.0 h.0.msg_type o.0 c.0 c.1;
      channel = channel_found d k.0 k.1;
      buffers = no_items_at-found (codes "buffers") d n.0 n.1;
    })

pub message_only : (d : Data) (m : Message) → IsMessage d m → message_of d ≡ Ok m
unfolding message_of
message_only d m f =
    let a = object_at-only (codes "header") d m.header.json f.header_object in
    let h = header_only m.header f.header in
    let p = object_or_empty-only (codes "parent_header") d m.parent_header f.parent_header in
    let q = object_or_empty-only (codes "metadata") d m.metadata f.metadata in
    let o = object_at-only (codes "content") d f.content_object f.has_content in
    let k = channel_only d m.channel f.channel in
    let n = no_items_at-only (codes "buffers") d m.buffers f.buffers in
    let c = content_only m.channel m.header.msg_type f.content_object m.content f.content in
    rw (a, h, p, q, o, k, n, c) refl

-- ---- the text

unless : (b : Bool) (g : Fault) (r : Result Data Fault) (d : Data) → cond b (Err g) r ≡ Ok d → (b ≡ false) × (r ≡ Ok d)
unless true g r d e = cc
unless false g r d e = (refl, e)

whole_found : (float : Bool) (o : Option Data) (d : Data) → if_whole float o ≡ Ok d → (o ≡ Some d) × (float ≡ false)
whole_found float None d e = cc
whole_found true (Some x) d e = cc
whole_found false (Some x) d e = (ap Some (ok_same x d e), refl)

whole_only : (float : Bool) (o : Option Data) (d : Data) → o ≡ Some d → float ≡ false → if_whole float o ≡ Ok d
whole_only float o d e h = rw (e, h) refl

pub text_found : (text : List ℕ) (m : Message) → message_at text ≡ Ok m → IsMessageText text m
unfolding message_at value_at whole_json
text_found text m e =
    let v = bind_ok (value_at text) _ m e in
    let a = unless (nat_lt 1048576 (length text)) _ _ v.0 v.1 in
    let w = whole_found (text_has_float text) (read text) v.0 a.1 in
    record { short = short (length text) a.0; value = v.0; reads = w.0; whole = w.1; message = message_found v.0 m v.2 }
  where
    short : (n : ℕ) → nat_lt 1048576 n ≡ false → n ≤ 1048576
    short n h = grind (arith, nat_tests)

pub is_read : (text : List ℕ) (m : Message) → IsMessageText text m → message_at text ≡ Ok m
unfolding message_at value_at whole_json
is_read text m f =
    let fits : nat_lt 1048576 (length text) ≡ false = fits_in (length text) f.short in
    let d = whole_only (text_has_float text) (read text) f.value f.reads f.whole in
    let e = message_only f.value m f.message in
    rw (fits, d, e) refl
  where
    fits_in : (n : ℕ) → n ≤ 1048576 → nat_lt 1048576 n ≡ false
    fits_in n h = grind (arith, nat_tests)

pub found_if_given : (r : Result Message Bad) (d : Data) → Gives r (message_of d) → IfOk r (IsMessage d)
found_if_given (Ok m) d h = message_found d m h
found_if_given (Err e) d h = tt

pub only_if_given : (r : Result Message Bad) (d : Data) → Gives r (message_of d) → (m : Message) → IsMessage d m → Gives r (Ok m)
only_if_given r d h m f = subst (Gives r) (message_only d m f) h

pub found_if_exact : (r : Result Message Bad) (text : List ℕ) → Gives r (message_at text) → IfOk r (IsMessageText text)
found_if_exact (Ok m) text h = text_found text m h
found_if_exact (Err e) text h = tt

pub only_if_exact : (r : Result Message Bad) (text : List ℕ) → Gives r (message_at text) → (m : Message) → IsMessageText text m → Gives r (Ok m)
only_if_exact r text h m f = subst (Gives r) (is_read text m f) h
