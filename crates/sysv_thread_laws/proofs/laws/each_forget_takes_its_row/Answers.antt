use Rattle.sysv_thread_laws.proofs.laws.each_forget_takes_its_row.Goals as goal

pub returns : goal.returns
returns c = λ o list responses w led. (c.every_threaded_run_obeys.ensures o list responses w led).lives.forgets
