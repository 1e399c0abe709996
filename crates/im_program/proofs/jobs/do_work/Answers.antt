use Rattle.std.proofs.Common.{refl, inl}
use Rattle.im_program.proofs.jobs.do_work.Goals as goal

pub returns-in-Demonstration-clause-done : goal.returns-in-Demonstration-clause-done
returns-in-Demonstration-clause-done g c =
    rw c.in-Demonstration.is (record { result = tt; named = tt; both = tt; none = inl refl })

pub returns-in_ok-format_image-in-Format-clause-done : goal.returns-in_ok-format_image-in-Format-clause-done
returns-in_ok-format_image-in-Format-clause-done g c = rw c.in-Format.is (rw c.of_one.ensures (record {
  result = c.in_ok-format_image-in-Format.ensures.made;
  named = c.in_ok-format_image-in-Format.ensures.named;
  both = tt;
  none = tt;
}))

pub returns-in_ok-serve_file-in-Serial-clause-done : goal.returns-in_ok-serve_file-in-Serial-clause-done
returns-in_ok-serve_file-in-Serial-clause-done g c = rw c.in-Serial.is (rw c.of_one-in-Serial.ensures (record {
  result = c.in_ok-serve_file-in-Serial.ensures.served;
  named = c.in_ok-serve_file-in-Serial.ensures.named;
  both = tt;
  none = tt;
}))

pub returns-in_ok-run_traced-in-Run-clause-done : goal.returns-in_ok-run_traced-in-Run-clause-done
returns-in_ok-run_traced-in-Run-clause-done g c = rw c.in-Run.is (rw c.of_one-in-Run.ensures (record {
  result = c.in_ok-run_traced-in-Run.ensures.ran;
  named = c.in_ok-run_traced-in-Run.ensures.named;
  both = tt;
  none = tt;
}))

pub returns-in_ok-talk_file-in-Serve-clause-done : goal.returns-in_ok-talk_file-in-Serve-clause-done
returns-in_ok-talk_file-in-Serve-clause-done g c = rw c.in-Serve.is (rw c.of_one-in-Serve.ensures (record {
  result = λ honest. (c.talk_file.new.backups.shelf, rw c.new-folder.ensures at c.in_ok-talk_file-in-Serve.ensures.talked honest);
  named = c.in_ok-talk_file-in-Serve.ensures.named;
  both = tt;
  none = tt;
}))

pub returns-in_ok-load_file-in-Load-clause-done : goal.returns-in_ok-load_file-in-Load-clause-done
returns-in_ok-load_file-in-Load-clause-done g c = rw c.in-Load.is (rw c.of_one-in-Load.ensures (record {
  result = c.in_ok-load_file-in-Load.ensures.loaded;
  named = c.in_ok-load_file-in-Load.ensures.named;
  both = tt;
  none = tt;
}))

pub returns-in_ok-migrate_file-in-Migrate-clause-done : goal.returns-in_ok-migrate_file-in-Migrate-clause-done
returns-in_ok-migrate_file-in-Migrate-clause-done g c = rw c.in-Migrate.is (rw c.of_two.ensures (record {
  result = c.in_ok-migrate_file-in-Migrate.ensures.moved;
  named = c.in_ok-migrate_file-in-Migrate.ensures.named;
  both = (_, refl, c.in_ok-migrate_file-in-Migrate.ensures.old);
  none = tt;
}))

pub returns-in_ok-copy_file-in-Copy-clause-done : goal.returns-in_ok-copy_file-in-Copy-clause-done
returns-in_ok-copy_file-in-Copy-clause-done g c = rw c.in-Copy.is (rw c.of_two-in-Copy.ensures (record {
  result = c.in_ok-copy_file-in-Copy.ensures.copied;
  named = c.in_ok-copy_file-in-Copy.ensures.named;
  both = (_, refl, c.in_ok-copy_file-in-Copy.ensures.old);
  none = tt;
}))
