-- What is so of the live stream of one identifier, if there is one, whatever is done to the live streams.
use Rattle.std.proofs.Common.{◌≡◌, refl, sym, ap, ◌∙◌, subst, ℕ, ◌≤◌, arith, Bool, true, false, cond, eqb, List, []}
use Rattle.std.proofs.Common.{◌∷◌, Option, Some, None, is_some, is_eq, nat_cmp}
use Rattle.std.specs.BTreeMap.{is_at}
use Rattle.std.specs.Map.{keys_of, lookup}
use Rattle.std.specs.Option.{option_map}
use Rattle.std.proofs.lemmas.Bool.{eqb-true, false≢true}
use Rattle.sctp_courses.specs.Course.{times}
use Rattle.sctp_wire_types.specs.declared.chunk.ChunkPayloadData.{ChunkPayloadData}
use Rattle.sctp_wire_types.specs.declared.ids.PayloadProtocolIdentifier.{PayloadProtocolIdentifier}
use Rattle.sctp_streams.specs.Stream.{StreamView, fresh_stream, stream_passed, stream_pushed, stream_read}
use Rattle.sctp_streams.specs.Streams.{StreamMap, change_at, changed_stream, made, passed_each, passed_in, pushed_at}
use Rattle.sctp_streams.specs.Streams.{pushed_in, read_at, read_in, stream_at, with_stream, without_stream}
use Rattle.sctp_streams.specs.Streams.{without_streams}
use Rattle.sctp_streams.proofs.LowMarks.{at_with, found_as}
use Rattle.sctp_resets.proofs.StreamsBeside.{ended_apart}
use Rattle.sctp_fit.proofs.StreamsThere.{at_made}
use Rattle.sctp_reset_fit.specs.Stands.{IsOnce}
use Rattle.sctp_reset_fit.proofs.Once.{inserted_once, removed_none, removed_once, set_once}

-- The identifier stands once among the live streams, and this is so of its stream.
pub record IsAt (Q : StreamView → Type 0) (id : ℕ) (m : StreamMap) : Type 0 where
  pub once : IsOnce id m.by_id
  pub so : (s : StreamView) → stream_at m id ≡ Some s → Q s

-- None is live

pub none_at : (R : StreamView → Type 0) (id : ℕ) (m : StreamMap) → IsAt R id (without_streams m)
none_at R id m = record { once = omega arith; so = λ s e. absurd (false≢true (ap is_some e)) }

pub ended_at : (R : StreamView → Type 0) (id : ℕ) (m : StreamMap) → IsOnce id m.by_id
    → IsAt R id (without_stream m id)
ended_at R id m once = record {
  once = removed_once id (is_at (nat_cmp id)) m.by_id once;
  so = λ s e. absurd (false≢true (ap is_some (sym (removed_none id m.by_id once) ∙ e)));
}

-- What was so of the stream, and what is so of it then; as a stream other than this one is changed, that follows.
module _ (Q R : StreamView → Type 0) (id : ℕ) where
  abbrev Stays : ℕ → Type 0
  Stays k = eqb id k ≡ false → (s : StreamView) → Q s → R s

  set_at : (m : StreamMap) (k : ℕ) (t u : StreamView) → stream_at m k ≡ Some t → (id ≡ k → Q t → R u) → Stays k
      → IsAt Q id m → IsAt R id (with_stream m k u)
  set_at m k t u is mine others h = record {
    once = set_once id (is_at (nat_cmp k)) u m.by_id h.once;
    so = λ s e. by (eqb id k) refl s (sym (at_with m k id t u is) ∙ e);
  }
    where
      before : id ≡ k → Q t
      before same = h.so t (subst (λ (j : ℕ). stream_at m j ≡ Some t) (sym same) is)

      by : (b : Bool) → eqb id k ≡ b → (s : StreamView) → cond b (Some u) (stream_at m id) ≡ Some s → R s
      by true same s e =
          let one : id ≡ k = eqb-true id k same in
          let new : u ≡ s = cc in subst (λ (x : StreamView). R x) new (mine one (before one))
      by false other s e = others other s (h.so s e)

  -- a stream that is not live is not changed
  absent_at : (m : StreamMap) (k : ℕ) → stream_at m k ≡ None → Stays k → IsAt Q id m → IsAt R id m
  absent_at m k none others h = record { once = h.once; so = λ s e. by (eqb id k) refl s e }
    where
      by : (b : Bool) → eqb id k ≡ b → (s : StreamView) → stream_at m id ≡ Some s → R s
      by true same s e =
          absurd (false≢true (ap is_some (sym none ∙ ap (stream_at m) (sym (eqb-true id k same)) ∙ e)))
      by false other s e = others other s (h.so s e)

  pub changed_at : (change : StreamView → StreamView) (m : StreamMap) (k : ℕ)
      → (id ≡ k → (s : StreamView) → Q s → R (change s)) → Stays k → IsAt Q id m
      → IsAt R id (changed_stream change m k)
  changed_at change m k mine others h = by (stream_at m k) refl
    where
      by : (o : Option StreamView) → stream_at m k ≡ o → IsAt R id (change_at change o m k)
      by None is = absent_at m k is others h
      by (Some t) is = set_at m k t (change t) is (λ same. mine same t) others h

  pub read_in_at : (m : StreamMap) (k : ℕ) → (id ≡ k → (s : StreamView) → Q s → R (stream_read s).0) → Stays k
      → IsAt Q id m → IsAt R id (read_in m k).0
  read_in_at m k mine others h = by (stream_at m k) refl
    where
      by : (o : Option StreamView) → stream_at m k ≡ o → IsAt R id (read_at o m k).0
      by None is = absent_at m k is others h
      by (Some t) is = set_at m k t (stream_read t).0 is (λ same. mine same t) others h

  pub pushed_in_at : (m : StreamMap) (k : ℕ) (p : ChunkPayloadData)
      → (id ≡ k → (s : StreamView) → stream_at m k ≡ Some s → Q s → R (stream_pushed s p).0) → Stays k → IsAt Q id m
      → IsAt R id (pushed_in m k p).0
  pushed_in_at m k p mine others h = by (stream_at m k) refl
    where
      by : (o : Option StreamView) → stream_at m k ≡ o → IsAt R id (pushed_at o m k p).0
      by None is = absent_at m k is others h
      by (Some t) is = set_at m k t (stream_pushed t p).0 is (λ same. mine same t is) others h

  pub without_at : (m : StreamMap) (k : ℕ) → Stays k → IsAt Q id m → IsAt R id (without_stream m k)
  without_at m k others h = record {
    once = removed_once id (is_at (nat_cmp k)) m.by_id h.once;
    so = λ s e. by (eqb id k) refl s e;
  }
    where
      gone : id ≡ k → stream_at (without_stream m k) id ≡ None
      gone same =
          subst (λ (j : ℕ). stream_at (without_stream m j) id ≡ None) same (removed_none id m.by_id h.once)

      by : (b : Bool) → eqb id k ≡ b → (s : StreamView) → stream_at (without_stream m k) id ≡ Some s → R s
      by true same s e = absurd (false≢true (ap is_some (sym (gone (eqb-true id k same)) ∙ e)))
      by false other s e = others other s (h.so s (sym (ended_apart id k (found_as id k ∙ other) m) ∙ e))

  pub made_at : (m : StreamMap) (k first : ℕ) (kind : PayloadProtocolIdentifier) → stream_at m k ≡ None
      → R (fresh_stream k m.next_generation first kind) → Stays k → IsAt Q id m → IsAt R id (made m k first kind)
  made_at m k first kind none new others h = record {
    once =
        inserted_once id k fresh m.by_id h.once (λ same. subst (λ (j : ℕ). stream_at m j ≡ None) (sym same) none);
    so = λ s e. by (eqb id k) refl s (sym (at_made m k first id kind none) ∙ e);
  }
    where
      fresh : StreamView
      fresh = fresh_stream k m.next_generation first kind

      by : (b : Bool) → eqb id k ≡ b → (s : StreamView) → cond b (Some fresh) (stream_at m id) ≡ Some s → R s
      by true same s e = let one : fresh ≡ s = cc in subst (λ (x : StreamView). R x) one new
      by false other s e = others other s (h.so s e)

  -- A FORWARD TSN drops unordered pieces on all streams

  mapped_step : (f : StreamView → StreamView) (b : Bool) (t : StreamView) (o : Option StreamView)
      → cond b (Some (f t)) (option_map f o) ≡ option_map f (cond b (Some t) o)
  mapped_step f true t o = refl
  mapped_step f false t o = refl

  found_passed : (tsn : ℕ) (es : List (ℕ × StreamView))
      → lookup (is_at (nat_cmp id)) (passed_each tsn es)
      ≡ option_map (stream_passed tsn) (lookup (is_at (nat_cmp id)) es)
  found_passed tsn [] = refl
  found_passed tsn (e ∷ es) =
      ap (cond (is_eq (nat_cmp id e.0)) (Some (stream_passed tsn e.1))) (found_passed tsn es)
      ∙ mapped_step (stream_passed tsn) (is_eq (nat_cmp id e.0)) e.1 (lookup (is_at (nat_cmp id)) es)

  same_keys : (tsn : ℕ) (es : List (ℕ × StreamView)) → keys_of (passed_each tsn es) ≡ keys_of es
  same_keys tsn [] = refl
  same_keys tsn (e ∷ es) = ap (λ (ks : List ℕ). e.0 ∷ ks) (same_keys tsn es)

  pub passed_in_at : (m : StreamMap) (tsn : ℕ) → ((s : StreamView) → Q s → R (stream_passed tsn s)) → IsAt Q id m
      → IsAt R id (passed_in m tsn)
  passed_in_at m tsn passed h = record {
    once = subst (λ (ks : List ℕ). times id ks ≤ 1) (sym (same_keys tsn m.by_id)) h.once;
    so = λ s e. by (stream_at m id) refl s (sym (found_passed tsn m.by_id) ∙ e);
  }
    where
      by : (o : Option StreamView) → stream_at m id ≡ o → (s : StreamView) → option_map (stream_passed tsn) o ≡ Some s
          → R s
      by None is s e = absurd (false≢true (ap is_some e))
      by (Some t) is s e =
          let new : stream_passed tsn t ≡ s = cc in subst (λ (x : StreamView). R x) new (passed t (h.so t is))
