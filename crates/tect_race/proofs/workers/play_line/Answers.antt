-- The line is done by the racer that it is of, and by no other.
use Rattle.std.proofs.Common.{refl, length}
use Rattle.place_locks.specs.declared.locked.Locked.{Locked}
use Rattle.tect_race.proofs.WorkerLines.{line_rests, line_counts, line_client, line_few, line_takes, line_plays}
use Rattle.tect_race.proofs.Losses.{lost_racer, played_too}
use Rattle.tect_race.proofs.workers.play_line.Goals as goal

pub returns-then-number-shared : goal.returns-then-number-shared
returns-then-number-shared g c = record {
  fault = tt;
  plays = line_rests g.P.Programs.rules c.args.shared.now.places.now c.args.shared.now.clients.now (length c.args.shared.now.clients.now)
      c.args.shared.now.worker_count c.args.line.now c.in-Client.client c.in-Client.actor c.in-Client.act c.args.worker.now
      c.in-Client.is c.requires.client c.requires.ready c.if-number-shared.true;
}

pub play_act-played-requires-clause-counts : goal.play_act-played-requires-clause-counts
play_act-played-requires-clause-counts g c =
    line_counts g.P.Programs.rules c.args.shared.now.places.now c.args.shared.now.clients.now (length c.args.shared.now.clients.now)
    c.args.shared.now.worker_count c.args.line.now c.in-Client.client c.in-Client.actor c.in-Client.act c.args.worker.now
    c.in-Client.is c.requires.client c.requires.ready c.if-number-shared.false c.index_mut.result.now c.index_mut.ensures.value

pub play_act-played-requires-clause-client : goal.play_act-played-requires-clause-client
play_act-played-requires-clause-client g c =
    line_client g.P.Programs.rules c.args.shared.now.places.now c.args.shared.now.clients.now (length c.args.shared.now.clients.now)
    c.args.shared.now.worker_count c.args.line.now c.in-Client.client c.in-Client.actor c.in-Client.act c.args.worker.now
    c.in-Client.is c.requires.client c.requires.ready c.if-number-shared.false c.index_mut.result.now c.index_mut.ensures.value

pub play_act-played-requires-clause-few : goal.play_act-played-requires-clause-few
play_act-played-requires-clause-few g c =
    line_few g.P.Programs.rules c.args.shared.now.places.now c.args.shared.now.clients.now (length c.args.shared.now.clients.now)
    c.args.shared.now.worker_count c.args.line.now c.in-Client.client c.in-Client.actor c.in-Client.act c.args.worker.now
    c.in-Client.is c.requires.client c.requires.ready c.if-number-shared.false c.index_mut.result.now c.index_mut.ensures.value

pub play_act-played-requires-clause-takes : goal.play_act-played-requires-clause-takes
play_act-played-requires-clause-takes g c =
    line_takes g.P.Programs.rules c.args.shared.now.places.now c.args.shared.now.clients.now (length c.args.shared.now.clients.now)
    c.args.shared.now.worker_count c.args.line.now c.in-Client.client c.in-Client.actor c.in-Client.act c.args.worker.now
    c.in-Client.is c.requires.client c.requires.ready c.if-number-shared.false c.index_mut.result.now c.index_mut.ensures.value

pub returns-clause-plays : goal.returns-clause-plays
returns-clause-plays g c =
    line_plays g.P.Programs.rules c.args.shared.now.places.now c.args.shared.now.clients.now (length c.args.shared.now.clients.now)
    c.args.shared.now.worker_count c.args.line.now c.in-Client.client c.in-Client.actor c.in-Client.act c.args.worker.now
    c.in-Client.is c.requires.client c.requires.ready c.if-number-shared.false c.index_mut.result.now c.index_mut.ensures.value
    c.play_act-played.result c.raced.result (played_too c.play_act-played.result c.raced.result c.raced.ensures) c.play_act-played.new.racer
    _ refl refl c.play_act-played.ensures.plays

pub returns-clause-fault : goal.returns-clause-fault
returns-clause-fault g c =
    lost_racer (λ (w : Locked g.row.R.Denot g.row.G.Denot). w.places.now) c.args.shared.now.places.now c.play_act-played.result
    c.raced.result c.requires.places c.raced.ensures c.play_act-played.ensures.fault
