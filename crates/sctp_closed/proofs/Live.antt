-- A live stream that resets do not concern stays live under its generation, whatever the rules do to streams.
use Rattle.std.proofs.Common.{◌≡◌, refl, sym, ap, ◌∙◌, ℕ, Bool, true, false, cond, eqb, List, [], ◌∷◌, Option, Some}
use Rattle.std.proofs.Common.{None, is_some, is_eq, nat_cmp}
use Rattle.std.specs.Prelude.{⊤}
use Rattle.std.specs.BTreeMap.{is_at}
use Rattle.std.specs.Map.{lookup}
use Rattle.std.proofs.lemmas.Bool.{eqb-true, false≢true, true≢false}
use Rattle.sctp_wire_types.specs.declared.chunk.ChunkPayloadData.{ChunkPayloadData}
use Rattle.sctp_wire_types.specs.declared.ids.PayloadProtocolIdentifier.{PayloadProtocolIdentifier}
use Rattle.sctp_receive_queues.specs.Messages.{ReceivedMessage}
use Rattle.sctp_receive_queues.specs.Reassembly.{Reassembly, taken}
use Rattle.sctp_streams.specs.declared.event.Event.{Event}
use Rattle.sctp_streams.specs.Stream.{StreamView, fresh_stream, read_with, stream_passed, stream_pushed, stream_read}
use Rattle.sctp_streams.specs.Streams.{StreamMap, change_at, changed_stream, made, passed_each, passed_in, pushed_at}
use Rattle.sctp_streams.specs.Streams.{pushed_in, read_at, read_in, stream_at, with_stream, without_stream}
use Rattle.sctp_streams.proofs.LowMarks.{at_with, found_as}
use Rattle.sctp_resets.proofs.StreamsBeside.{ended_apart}
use Rattle.sctp_fit.proofs.StreamsThere.{at_made}
use Rattle.sctp_ended.proofs.Carried.{IsMild}
use Rattle.sctp_closed.specs.Closed.{generation_at, generation_of}
use Rattle.sctp_closed.proofs.Rules.{IsUnended}

-- Nothing is asked
abbrev pub Anything : Bool → StreamMap → List Event → Type 0
Anything lost m es = ⊤

pub anything_is_kept : (over : ℕ → Bool) → IsUnended over Anything
anything_is_kept over = record {
  says = λ lost m es more each h. h;
  untells = λ lost m es id h. h;
  gives = λ lost m es index h. h;
  changes = λ lost m es change id mild h. h;
  reads = λ lost m es id h. h;
  pushes = λ lost m es id piece h. h;
  passes = λ lost m es tsn h. h;
  makes = λ lost m es id first kind none h. h;
  ends = λ lost m es id one h. h;
  closes = λ lost m es reason h. h;
}

-- a stream of an identifier is live under this generation, unless the association was lost
abbrev pub IsLiveAt : ℕ → ℕ → Bool → StreamMap → List Event → Type 0
IsLiveAt id generation lost m es = lost ≡ false → generation_at m id ≡ Some generation

-- a read leaves the generation of its stream
read_number : (s : StreamView) (left : Reassembly × Option ReceivedMessage)
    → (read_with s left).0.stats.generation ≡ s.stats.generation
read_number s (r, None) = refl
read_number s (r, Some message) = refl

module _ (id generation : ℕ) where
  abbrev IsThere : StreamMap → Type 0
  IsThere m = generation_at m id ≡ Some generation

  -- a stream becomes another one of its generation
  set_there : (m : StreamMap) (k : ℕ) (t u : StreamView) → stream_at m k ≡ Some t
      → u.stats.generation ≡ t.stats.generation → IsThere m → IsThere (with_stream m k u)
  set_there m k t u is same h = ap generation_of (at_with m k id t u is) ∙ by (eqb id k) refl
    where
      by : (b : Bool) → eqb id k ≡ b → generation_of (cond b (Some u) (stream_at m id)) ≡ Some generation
      by true e =
          ap (λ (n : ℕ). Some n) same ∙ sym (ap generation_of (ap (stream_at m) (eqb-true id k e) ∙ is)) ∙ h
      by false e = h

  changed_there : (change : StreamView → StreamView) → IsMild change → (m : StreamMap) (k : ℕ) → IsThere m
      → IsThere (changed_stream change m k)
  changed_there change mild m k h = by (stream_at m k) refl
    where
      by : (o : Option StreamView) → stream_at m k ≡ o → IsThere (change_at change o m k)
      by None is = h
      by (Some t) is = set_there m k t (change t) is (mild.number t) h

  read_there : (m : StreamMap) (k : ℕ) → IsThere m → IsThere (read_in m k).0
  read_there m k h = by (stream_at m k) refl
    where
      by : (o : Option StreamView) → stream_at m k ≡ o → IsThere (read_at o m k).0
      by None is = h
      by (Some t) is = set_there m k t (stream_read t).0 is (read_number t (taken t.reassembly)) h

  pushed_there : (m : StreamMap) (k : ℕ) (piece : ChunkPayloadData) → IsThere m → IsThere (pushed_in m k piece).0
  pushed_there m k piece h = by (stream_at m k) refl
    where
      by : (o : Option StreamView) → stream_at m k ≡ o → IsThere (pushed_at o m k piece).0
      by None is = h
      by (Some t) is = set_there m k t (stream_pushed t piece).0 is refl h

  passed_generation : (tsn : ℕ) (es : List (ℕ × StreamView))
      → generation_of (lookup (is_at (nat_cmp id)) (passed_each tsn es))
      ≡ generation_of (lookup (is_at (nat_cmp id)) es)
  passed_generation tsn [] = refl
  passed_generation tsn (e ∷ es) = by (is_eq (nat_cmp id e.0)) (passed_generation tsn es)
    where
      by : (b : Bool)
          → generation_of (lookup (is_at (nat_cmp id)) (passed_each tsn es))
          ≡ generation_of (lookup (is_at (nat_cmp id)) es)
          → generation_of (cond b (Some (stream_passed tsn e.1)) (lookup (is_at (nat_cmp id)) (passed_each tsn es)))
          ≡ generation_of (cond b (Some e.1) (lookup (is_at (nat_cmp id)) es))
      by true more = refl
      by false more = more

  passed_there : (m : StreamMap) (tsn : ℕ) → IsThere m → IsThere (passed_in m tsn)
  passed_there m tsn h = passed_generation tsn m.by_id ∙ h

  -- one is made where none was live
  made_there : (m : StreamMap) (k first : ℕ) (kind : PayloadProtocolIdentifier) → stream_at m k ≡ None → IsThere m
      → IsThere (made m k first kind)
  made_there m k first kind none h = ap generation_of (at_made m k first id kind none) ∙ by (eqb id k) refl
    where
      fresh : StreamView
      fresh = fresh_stream k m.next_generation first kind

      by : (b : Bool) → eqb id k ≡ b → generation_of (cond b (Some fresh) (stream_at m id)) ≡ Some generation
      by true e =
          absurd (false≢true
          (ap is_some (sym (ap generation_of (ap (stream_at m) (eqb-true id k e) ∙ none)) ∙ h)))
      by false e = h

  -- another one ends
  ended_there : (over : ℕ → Bool) → over id ≡ false → (m : StreamMap) (k : ℕ) → over k ≡ true → IsThere m
      → IsThere (without_stream m k)
  ended_there over other m k one h =
      ap generation_of (ended_apart id k (found_as id k ∙ apart (eqb id k) refl) m) ∙ h
    where
      apart : (b : Bool) → eqb id k ≡ b → eqb id k ≡ false
      apart true e = absurd (false≢true (sym other ∙ ap over (eqb-true id k e) ∙ one))
      apart false e = e

  pub live_is_kept : (over : ℕ → Bool) → over id ≡ false → IsUnended over (IsLiveAt id generation)
  live_is_kept over other = record {
    says = λ lost m es more each h. h;
    untells = λ lost m es k h. h;
    gives = λ lost m es index h. h;
    changes = λ lost m es change k mild h. (λ kept. changed_there change mild m k (h kept));
    reads = λ lost m es k h. (λ kept. read_there m k (h kept));
    pushes = λ lost m es k piece h. (λ kept. pushed_there m k piece (h kept));
    passes = λ lost m es tsn h. (λ kept. passed_there m tsn (h kept));
    makes = λ lost m es k first kind none h. (λ kept. made_there m k first kind none (h kept));
    ends = λ lost m es k one h. (λ kept. ended_there over other m k one (h kept));
    closes = λ lost m es reason h. (λ kept. absurd (true≢false kept));
  }
