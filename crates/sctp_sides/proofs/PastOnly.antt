-- Associations whose resets concern streams past their span alone: what keeps that so, whichever the call.
use Rattle.std.proofs.Common.{◌≡◌, sym, subst, ℕ, Bool, true, false, List, [], ◌∷◌, ◌++◌, Option, Some, None}
use Rattle.std.specs.List.{AllByRecursion}
use Rattle.sctp_wire_types.specs.declared.chunk.Chunk.{Chunk}
use Rattle.sctp_wire_types.specs.declared.chunk.Chunk.TheVariants as chunks
use Rattle.sctp_wire_types.specs.declared.packet.CommonHeader.{CommonHeader}
use Rattle.sctp_wire_types.specs.declared.param.Param.{Param}
use Rattle.sctp_wire_types.specs.declared.param.Param.TheVariants as params
use Rattle.sctp_wire_types.specs.declared.param.ReconfigResult.{ReconfigResult}
use Rattle.sctp_model.proofs.Lists.{all_join, all_weaker}
use Rattle.sctp_generations.specs.Generations.{no_generations}
use Rattle.sctp_inbound.specs.Handshake.{header_of}
use Rattle.sctp_reset_requests.specs.declared.own_request.OwnRequest.{OwnRequest}
use Rattle.sctp_reset_requests.specs.declared.own_request.SentRequest.{SentRequest}
use Rattle.sctp_reset_requests.specs.Request.{PeerRequestView}
use Rattle.sctp_resets.specs.Concerned.{deferred_ids, retiring_ids, skipped_ids}
use Rattle.sctp_resets.specs.Resets.{Beside, ResetsView, Resetting}
use Rattle.sctp_resets.specs.Within.{AreOver, AsksOver, InProgressOver, KeptOver, NamesOver, ResetsOver, SentOver}
use Rattle.sctp_assoc.specs.declared.control.Control.{Control}
use Rattle.sctp_assoc.specs.declared.control.Control.TheVariants as controls
use Rattle.sctp_assoc.specs.Control.{asking, queued, queued_under}
use Rattle.sctp_assoc.specs.Resets.{asking_if, responding, with_beside, with_resetting}
use Rattle.sctp_assoc.specs.Shown.{Shown}
use Rattle.sctp_sides.specs.NoReset.{IsNoReconfig, IsOfNoReset}
use Rattle.sctp_sides.specs.PastSpan.{MoreArePast, MoreIsAskedPast, NoResetIsPastOnly, ParamIsPast, ParamIsPastIf}
use Rattle.sctp_sides.specs.PastSpan.{ResetsNoMore, ResetsPast, ResetsPastIfAny, ResetsPastOnly, WaitsPast}

-- Steps of an association

-- only resets and what waits to go out count
pub same_stays_past : (a b : Shown) → b.resets ≡ a.resets → b.control ≡ a.control → ResetsNoMore a b
same_stays_past a b resets control over h = record {
  resets = subst (ResetsOver over) (sym resets) h.resets;
  control = subst (AllByRecursion (WaitsPast over)) (sym control) h.control;
}

-- the same side
pub none_changed : (a b : Shown) → b ≡ a → ResetsNoMore a b
none_changed a b e over h = subst (ResetsPastOnly over) (sym e) h

-- The streams that are past their span.
module _ (over : ℕ → Bool) where
  -- one item more waits
  pub one_more_is_past : (cs : List Control) (c : Control) → WaitsPast over c → AllByRecursion (WaitsPast over) cs
      → AllByRecursion (WaitsPast over) (cs ++ c ∷ [])
  one_more_is_past cs c one each = all_join (WaitsPast over) cs (c ∷ []) each (one, tt)

  -- one packet more waits, of a chunk that is no RE-CONFIG or a RE-CONFIG of streams past their span
  pub queued_under_is_past : (header : CommonHeader) (a : Shown) (chunk : Chunk) → ResetsPastIfAny over chunk
      → ResetsPastOnly over a → ResetsPastOnly over (queued_under header a chunk)
  queued_under_is_past header a chunk one h = record {
    resets = h.resets;
    control = one_more_is_past a.control _ one h.control;
  }

  pub queued_is_past : (a : Shown) (chunk : Chunk) → ResetsPastIfAny over chunk → ResetsPastOnly over a
      → ResetsPastOnly over (queued a chunk)
  queued_is_past a chunk one h = queued_under_is_past (header_of a.handshake) a chunk one h

  -- the response to a request waits
  pub responding_is_past : (a : Shown) (number : ℕ) (result : ReconfigResult) → ResetsPastOnly over a
      → ResetsPastOnly over (responding a number result)
  responding_is_past a number result h = queued_is_past a _ (tt, tt) h

  -- a request of this side has its place
  pub asking_is_past : (a : Shown) → ResetsPastOnly over a → ResetsPastOnly over (asking a)
  asking_is_past a h = record {
    resets = h.resets;
    control = one_more_is_past a.control _ tt h.control;
  }

  pub asking_if_is_past : (asks : Bool) (a : Shown) → ResetsPastOnly over a → ResetsPastOnly over (asking_if asks a)
  asking_if_is_past true a h = asking_is_past a h
  asking_if_is_past false a h = h

  -- resets become others of streams past their span, and what waits is as it was
  pub others_are_past : (a b : Shown) → ResetsOver over b.resets → b.control ≡ a.control → ResetsPastOnly over a
      → ResetsPastOnly over b
  others_are_past a b resets control h = record {
    resets = resets;
    control = subst (AllByRecursion (WaitsPast over)) (sym control) h.control;
  }

  pub beside_is_past : (a : Shown) (x : Beside) → ResetsOver over x.0 → ResetsPastOnly over a
      → ResetsPastOnly over (with_beside a x)
  beside_is_past a (r, m, told) resets h = record { resets = resets; control = h.control }

  pub resetting_is_past : (a : Shown) (x : Resetting) → ResetsOver over x.0 → ResetsPastOnly over a
      → ResetsPastOnly over (with_resetting a x)
  resetting_is_past a (r, c) resets h = record { resets = resets; control = h.control }

-- Where no reset is under way

no_reconfig_is_past : (over : ℕ → Bool) (c : Chunk) → IsNoReconfig c → ResetsPastIfAny over c
no_reconfig_is_past over (chunks.Data x) plain = tt
no_reconfig_is_past over (chunks.Init x) plain = tt
no_reconfig_is_past over (chunks.InitAck x) plain = tt
no_reconfig_is_past over (chunks.SelectiveAck x) plain = tt
no_reconfig_is_past over (chunks.Heartbeat x) plain = tt
no_reconfig_is_past over (chunks.HeartbeatAck x) plain = tt
no_reconfig_is_past over (chunks.Abort x) plain = tt
no_reconfig_is_past over (chunks.Shutdown x) plain = tt
no_reconfig_is_past over chunks.ShutdownAck plain = tt
no_reconfig_is_past over (chunks.Error x) plain = tt
no_reconfig_is_past over (chunks.CookieEcho x) plain = tt
no_reconfig_is_past over chunks.CookieAck plain = tt
no_reconfig_is_past over chunks.ShutdownComplete plain = tt
no_reconfig_is_past over (chunks.Reconfig x) plain = absurd plain
no_reconfig_is_past over (chunks.ForwardTsn x) plain = tt
no_reconfig_is_past over (chunks.IForwardTsn x) plain = tt
no_reconfig_is_past over (chunks.Other kind flags value) plain = tt

of_no_reset_is_past : (over : ℕ → Bool) (c : Control) → IsOfNoReset c → WaitsPast over c
of_no_reset_is_past over (controls.Packet p) plain = no_reconfig_is_past over p.chunk plain
of_no_reset_is_past over controls.OwnRequest plain = absurd plain

pub no_reset_is_past_only : NoResetIsPastOnly
no_reset_is_past_only over a n = record {
  resets = record {
    own = record {
      waiting = subst (AreOver over) (sym n.waiting) tt;
      queued = subst (AllByRecursion (AsksOver over)) (sym n.queued) tt;
      active = subst (SentOver over) (sym n.active) tt;
    };
    in_progress = subst (InProgressOver over) (sym n.in_progress) tt;
    kept =
        subst (KeptOver over) (sym n.kept)
        (let none : KeptOver over no_generations = record { retiring = tt; deferred = tt; skipped = tt } in none);
  };
  control = all_weaker IsOfNoReset (WaitsPast over) a.control (of_no_reset_is_past over) n.control;
}

-- Where more streams are past their span
module _ (over more : ℕ → Bool) (grows : (s : ℕ) → over s ≡ true → more s ≡ true) where
  more_ids : (ids : List ℕ) → AreOver over ids → AreOver more ids
  more_ids ids each = all_weaker (λ (id : ℕ). over id ≡ true) (λ (id : ℕ). more id ≡ true) ids grows each

  more_names : (ids : List ℕ) → NamesOver over ids → NamesOver more ids
  more_names ids n = record { some = n.some; each = more_ids ids n.each }

  more_asked : (r : OwnRequest) → AsksOver over r → AsksOver more r
  more_asked r n = record { not_all = n.not_all; names = more_names r.ids n.names }

  more_sent : (s : Option SentRequest) → SentOver over s → SentOver more s
  more_sent None n = tt
  more_sent (Some s) n = more_asked s.request n

  more_in_progress : (o : Option PeerRequestView) → InProgressOver over o → InProgressOver more o
  more_in_progress None n = tt
  more_in_progress (Some q) n = more_names q.ids n

  pub more_resets : (r : ResetsView) → ResetsOver over r → ResetsOver more r
  more_resets r h = record {
    own = record {
      waiting = more_ids r.own.waiting h.own.waiting;
      queued = all_weaker (AsksOver over) (AsksOver more) r.own.queued more_asked h.own.queued;
      active = more_sent r.own.active h.own.active;
    };
    in_progress = more_in_progress r.peer.in_progress h.in_progress;
    kept = record {
      retiring = more_ids (retiring_ids r.generations) h.kept.retiring;
      deferred = more_ids (deferred_ids r.generations) h.kept.deferred;
      skipped = more_ids (skipped_ids r.generations) h.kept.skipped;
    };
  }

  more_param : (p : Param) → ParamIsPast over p → ParamIsPast more p
  more_param (params.OutgoingResetRequest request) n = more_names request.stream_identifiers n
  more_param (params.ReconfigResponse response) n = tt
  more_param (params.HeartbeatInfo x) n = absurd n
  more_param (params.StateCookie x) n = absurd n
  more_param (params.SupportedExtensions x) n = absurd n
  more_param (params.Other kind value) n = absurd n

  more_param_if : (o : Option Param) → ParamIsPastIf over o → ParamIsPastIf more o
  more_param_if None n = tt
  more_param_if (Some p) n = more_param p n

  pub more_chunk : (c : Chunk) → ResetsPast over c → ResetsPast more c
  more_chunk (chunks.Reconfig x) n = (more_param x.first n.0, more_param_if x.second n.1)
  more_chunk (chunks.Data x) n = absurd n
  more_chunk (chunks.Init x) n = absurd n
  more_chunk (chunks.InitAck x) n = absurd n
  more_chunk (chunks.SelectiveAck x) n = absurd n
  more_chunk (chunks.Heartbeat x) n = absurd n
  more_chunk (chunks.HeartbeatAck x) n = absurd n
  more_chunk (chunks.Abort x) n = absurd n
  more_chunk (chunks.Shutdown x) n = absurd n
  more_chunk chunks.ShutdownAck n = absurd n
  more_chunk (chunks.Error x) n = absurd n
  more_chunk (chunks.CookieEcho x) n = absurd n
  more_chunk chunks.CookieAck n = absurd n
  more_chunk chunks.ShutdownComplete n = absurd n
  more_chunk (chunks.ForwardTsn x) n = absurd n
  more_chunk (chunks.IForwardTsn x) n = absurd n
  more_chunk (chunks.Other kind flags value) n = absurd n

  more_if_any : (c : Chunk) → ResetsPastIfAny over c → ResetsPastIfAny more c
  more_if_any (chunks.Reconfig x) n = more_chunk (chunks.Reconfig x) n
  more_if_any (chunks.Data x) n = tt
  more_if_any (chunks.Init x) n = tt
  more_if_any (chunks.InitAck x) n = tt
  more_if_any (chunks.SelectiveAck x) n = tt
  more_if_any (chunks.Heartbeat x) n = tt
  more_if_any (chunks.HeartbeatAck x) n = tt
  more_if_any (chunks.Abort x) n = tt
  more_if_any (chunks.Shutdown x) n = tt
  more_if_any chunks.ShutdownAck n = tt
  more_if_any (chunks.Error x) n = tt
  more_if_any (chunks.CookieEcho x) n = tt
  more_if_any chunks.CookieAck n = tt
  more_if_any chunks.ShutdownComplete n = tt
  more_if_any (chunks.ForwardTsn x) n = tt
  more_if_any (chunks.IForwardTsn x) n = tt
  more_if_any (chunks.Other kind flags value) n = tt

  more_waits : (c : Control) → WaitsPast over c → WaitsPast more c
  more_waits (controls.Packet p) n = more_if_any p.chunk n
  more_waits controls.OwnRequest n = tt

  more_side : (a : Shown) → ResetsPastOnly over a → ResetsPastOnly more a
  more_side a h = record {
    resets = more_resets a.resets h.resets;
    control = all_weaker (WaitsPast over) (WaitsPast more) a.control more_waits h.control;
  }

pub more_are_past : MoreArePast
more_are_past over more a grows = more_side over more grows a

pub more_is_asked_past : MoreIsAskedPast
more_is_asked_past over more chunk grows = more_chunk over more grows chunk
